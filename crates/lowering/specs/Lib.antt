-- What a reader believes: what the code of a program does.
pub mod Meanings
