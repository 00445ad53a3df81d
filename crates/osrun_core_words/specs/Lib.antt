-- What a reader believes: what the words name, and what two lists of words name.
pub mod Arguments
pub mod Command
pub mod Defaults
-- What restates private functions.
pub mod Parsed
