-- What a reader believes: who should give an element, chains and walks, and the laws of them.
pub mod Chain
pub mod Walk
pub mod Laws
