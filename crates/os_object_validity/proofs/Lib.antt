pub mod Tests
pub mod Standing
pub mod Exploring
pub mod Beginning
pub mod Starting
pub mod Telling
pub mod Elements
