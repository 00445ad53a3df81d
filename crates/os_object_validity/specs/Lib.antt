-- What restates private functions.
pub mod Tables
