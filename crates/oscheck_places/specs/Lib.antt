-- What a reader believes: lines and columns.
pub mod Lines
