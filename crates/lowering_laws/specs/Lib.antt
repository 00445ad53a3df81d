-- What a reader believes: how large the code of a program is, and the laws of programs that rest on a code of them.
pub mod Size
pub mod Laws
