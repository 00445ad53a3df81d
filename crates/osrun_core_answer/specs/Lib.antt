-- What a reader believes: what a request is meant to give, and what a call of the command leaves.
pub mod Gen
pub mod Explained
pub mod JobOutcome
pub mod Answers
-- That nothing depends on the number of workers.
pub mod Laws
-- What restates private functions.
pub mod Made
