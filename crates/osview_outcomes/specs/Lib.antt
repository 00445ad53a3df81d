-- What a reader believes: which frame waits for which, and what is kept of a run.
pub mod Order
pub mod Outcomes
-- What restates private functions: what is kept so far.
pub mod Kept
