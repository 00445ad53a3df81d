-- what a reader believes
pub mod Answers
pub mod Operators
pub mod Variables
pub mod ExpressionTypes
pub mod BodyState
pub mod File
pub mod Value
pub mod TypedValue
pub mod Flow
pub mod Claims
pub mod Tasks
pub mod Streams
pub mod Run
pub mod Functions
pub mod Program
pub mod Body
pub mod Control
-- what laws and examples say
pub mod Exact
pub mod Examples
pub mod Fitting
pub mod Judged
pub mod Moves
pub mod Scoped
pub mod Skips
pub mod TypedExamples
