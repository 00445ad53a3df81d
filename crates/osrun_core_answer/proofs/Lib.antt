pub mod Answering
pub mod GenRan
pub mod Loaded
pub mod MadeRun
pub mod Workers
pub mod Findings
