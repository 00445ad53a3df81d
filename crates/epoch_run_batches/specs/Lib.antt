-- What a reader believes: a run, what is meant of it, and what of that a batch came to.
pub mod Meant
pub mod Outcome
-- What restates private functions.
pub mod Found
pub mod Reads
pub mod Writes
pub mod Workload
