pub mod Joined
pub mod Said
