-- What a reader believes: that the size of a slot that is asked for is within its bounds.
pub mod Words
