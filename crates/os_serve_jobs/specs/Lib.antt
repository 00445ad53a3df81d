-- What a reader believes: the lines of a file and the words of a line, how far a file was read, what an answer looks like, and
-- what a sink in memory holds.
pub mod Lines
pub mod Words
pub mod Reading
pub mod Answers
pub mod MemorySinkStates
-- What restates private functions.
pub mod Cutting
