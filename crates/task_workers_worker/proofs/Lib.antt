pub mod Greatest
pub mod Pieces
pub mod Counts
pub mod Going
pub mod Steps
pub mod Unmade
pub mod Turns
pub mod Deques
