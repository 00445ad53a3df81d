-- What restates private functions.
pub mod Consecutive
pub mod Ends
pub mod Gathered
