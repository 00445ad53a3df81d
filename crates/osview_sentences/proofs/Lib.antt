pub mod Alike
pub mod Also
pub mod Codes
pub mod Counted
pub mod Joined
pub mod LeftOver
pub mod Producing
pub mod Stretches
