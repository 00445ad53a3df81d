-- What a reader believes: over which files a case is run, and what is judged of it.
pub mod Words
pub mod Judged
-- What restates private functions.
pub mod Requests
