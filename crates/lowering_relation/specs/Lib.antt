-- What a reader believes: what code stands for what tree,
pub mod Names
pub mod Expressions
pub mod Changes
pub mod Declarators
pub mod Tasks
pub mod Statements
pub mod Programs
pub mod Tiling
-- what such code does,
pub mod Laws
-- and that no run asks for a name that isn't there.
pub mod FoundNames
-- What only proofs say.
pub mod Alignment
