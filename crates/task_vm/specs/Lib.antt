-- What a reader believes: what a scratch has space for, and how many turns of its budget a task takes.
pub mod Space
pub mod Turns
-- What restates private functions.
pub mod Room
pub mod ItemRanges
pub mod Halting
pub mod Ending
pub mod Frames
pub mod Following
pub mod UnderWay
