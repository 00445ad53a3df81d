pub mod TaskLines
pub mod ReadSo
pub mod MainRuns
pub mod Walks
