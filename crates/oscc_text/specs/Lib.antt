-- What a reader believes: the C that is written for a code.
pub mod Names
pub mod Rows
pub mod Units
pub mod Sites
pub mod Program
-- What restates private functions.
pub mod Targets
