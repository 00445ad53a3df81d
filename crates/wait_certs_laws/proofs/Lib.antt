pub mod Starving
pub mod Growing
pub mod Walks
pub mod OneWalk
