-- What a reader believes: what a trace looks like, and what is told of a text that is none.
pub mod Trace
-- Laws of these definitions.
pub mod Laws
-- What restates private functions.
pub mod Fields
