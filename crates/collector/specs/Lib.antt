-- What a reader believes: what is written, missing and reported, and the status.
pub mod Written
pub mod Missing
pub mod Report
pub mod Status
-- The states whose output is written, and the laws.
pub mod Reported
pub mod Laws
-- Three small runs that fail, written out.
pub mod Runs
-- What restates private functions: the search for what is missing, how a text goes through the line buffer.
pub mod Walking
pub mod Buffering
