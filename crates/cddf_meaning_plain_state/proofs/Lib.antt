pub mod Horizons
pub mod Moving
pub mod Outputs
pub mod Places
pub mod Reached
