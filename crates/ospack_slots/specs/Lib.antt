-- What a reader believes: what slots and pieces hold, and what packing and unpacking answer.
pub mod Limits
pub mod Slots
pub mod Formats
pub mod Answers
pub mod Laws
-- What restates private functions: what is read of one slot or piece, and what one turn leaves.
pub mod Turns
