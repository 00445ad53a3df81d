pub mod ArgumentValues
pub mod CommandJobs
pub mod CommandNames
pub mod CommandParses
pub mod Defaults
pub mod GivenNumbers
