pub mod Filled
pub mod Lengths
pub mod Parts
pub mod Turns
pub mod Unended
pub mod Packed
pub mod Unpacked
pub mod Divisions
