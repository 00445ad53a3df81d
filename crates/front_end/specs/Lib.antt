-- What a reader believes.
pub mod Codes
pub mod Texts
-- What restates private functions for their contracts.
pub mod Told
