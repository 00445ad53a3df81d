pub mod Members
pub mod Instrs
pub mod Parts
pub mod Spelling
pub mod Few
pub mod Objects
pub mod RoundTrip
