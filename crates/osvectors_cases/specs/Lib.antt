-- What a reader believes: what a line of a file of cases says, which cases a file has, when a run passes, and what is reported.
pub mod Cases
pub mod Wanted
pub mod Verdicts
pub mod Reports
pub mod Tap
pub mod Junit
