pub mod Cutting
pub mod WorkerLines
pub mod Traces
