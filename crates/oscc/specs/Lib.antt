-- What a reader believes: what is written of a text.
pub mod Written
