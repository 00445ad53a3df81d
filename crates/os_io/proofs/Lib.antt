pub mod Entries
pub mod Pieces
pub mod Digits
pub mod Repeated
