pub mod Filling
pub mod Filled
pub mod Starving
pub mod Steps
pub mod Types
