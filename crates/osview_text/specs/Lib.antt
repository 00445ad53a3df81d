-- What a reader believes.
pub mod Numbers
pub mod Words
