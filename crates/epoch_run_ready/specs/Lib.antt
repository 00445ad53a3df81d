-- What a reader believes: that the newest activations all wait, and those before them.
pub mod Newest
-- What restates private functions: which activations wait, by marks, the first positions that can't come, and what nothing new reaches.
pub mod Waiting
pub mod Lowering
pub mod Unreached
