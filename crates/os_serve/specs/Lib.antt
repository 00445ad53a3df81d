-- What a reader believes: which words ask for a server, what it may open, and what each job is answered.
pub mod Command
pub mod Commands
-- What restates private functions.
pub mod AsksFor
