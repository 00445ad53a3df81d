-- What restates private functions: the streams behind activations that all have ended, what the next one reads and writes there,
-- where a run in control order stands, and what it goes on from.
pub mod Streams
pub mod Reading
pub mod Writing
pub mod Standing
pub mod Behind
pub mod Joining
