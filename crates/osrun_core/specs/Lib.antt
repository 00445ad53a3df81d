-- What a reader believes: when a file counts as read, what `compile`, `exec`, `explain`, `trace` and `replay` come to, and how much of it
-- a call gives.
pub mod Codes
pub mod Given
pub mod Lines
pub mod Read
pub mod Traces
