-- What a reader believes: the expressions of a program, the states in which bodies begin, and what activations read.
pub mod Expressions
pub mod Beginning
pub mod Reading
