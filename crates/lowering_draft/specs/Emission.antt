pub mod Expressions
pub mod Conditions
pub mod Changes
pub mod Declarators
pub mod Tasks
pub mod Statements
pub mod Units
pub mod TaskUnits
