pub mod Chains
pub mod Named
