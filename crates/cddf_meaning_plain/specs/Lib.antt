-- what restates private functions; what a reader believes stands in `cddf_meaning`, and in `Ends` of `cddf_meaning_plain_state`
pub mod Calls
pub mod Loops
pub mod Weights
