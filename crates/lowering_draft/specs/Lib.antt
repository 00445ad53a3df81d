-- What a reader believes: what a draft becomes, and the laws of it.
pub mod Draft
pub mod Few
pub mod Given
pub mod Going
pub mod Laws
-- The code as a function of the tree, and names in the order of their places.
pub mod Ascending
pub mod Emission
pub mod Items
