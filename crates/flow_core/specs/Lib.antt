-- What restates private functions for their contracts: where a run of a plan stands.
pub mod Waits
pub mod Counted
pub mod Shows
pub mod Board
pub mod Gathered
