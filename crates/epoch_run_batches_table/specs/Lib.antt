-- The run whose batches are run.
pub mod Running
-- What restates private functions.
pub mod Tokens
