pub mod OneMore
pub mod Growing
pub mod Held
pub mod Resuming
pub mod Apart
pub mod Joining
