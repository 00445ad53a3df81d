-- What a reader believes: what the lists of a run hold.
pub mod Logged
