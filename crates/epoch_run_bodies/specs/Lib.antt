-- What a reader believes: what the body of a frame makes of its inputs, and what activations come to.
pub mod Frames
-- The laws, as statements.
pub mod Laws
