-- What a reader believes: jobs with their limits and their files, how files are read, the statuses, the lines that tell a refusal, and what a sink took.
pub mod Files
pub mod Jobs
pub mod Limits
pub mod LineRoom
pub mod Reading
pub mod Refusal
pub mod Status
pub mod Telling
-- What a call of this crate leaves, for the crates above.
pub mod FileLoad
pub mod HandsOver
pub mod Refuses
