-- What a reader believes: that what is asked for is within its bounds.
pub mod Words
