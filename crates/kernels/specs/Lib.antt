-- What a reader believes.
pub mod Generated
