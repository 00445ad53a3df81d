pub mod FirstJobs
pub mod LineWords
pub mod ReadOn
