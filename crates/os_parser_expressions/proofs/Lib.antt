pub mod Refusals
pub mod Trees
