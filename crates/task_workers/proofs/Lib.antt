pub mod Apart
pub mod Delivering
mod SinkCells
