-- What a reader believes: the terms on which an input is cut, its parts, what their outputs are joined to, what a buffer of parts and a joiner have
-- done so far, the laws of parts, and the line that sums a run up.
pub mod Terms
pub mod Parts
pub mod Joined
pub mod Progress
pub mod Laws
pub mod Summary
