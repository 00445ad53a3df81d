pub mod Owning
pub mod State
pub mod Standing
pub mod Ending
