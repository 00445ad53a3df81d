pub mod Counting
pub mod Took
pub mod Reading
pub mod Ran
pub mod Told
