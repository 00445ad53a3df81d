pub mod Gathered
pub mod Joining
pub mod Lent
pub mod Spreading
pub mod Dealing
pub mod Hired
pub mod Logged
