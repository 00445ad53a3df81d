pub mod Called
pub mod Claiming
pub mod Lighter
pub mod Looping
pub mod Stopping
