pub mod Remainders
pub mod Divisions
pub mod Conversions
pub mod TypedOperators
