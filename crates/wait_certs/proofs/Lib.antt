pub mod Reading
pub mod Giving
pub mod Chains
pub mod Growth
pub mod Lasts
