-- What a reader believes: what a worker asks for, what it does to its seat, its hand and its log, and the room of a log.
pub mod Ready
pub mod Worked
pub mod Logs
pub mod Left
-- What restates private functions.
pub mod Turns
