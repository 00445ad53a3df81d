-- What a reader believes: the steps and turns of activations, what is counted of a task, and the lines that tell it.
pub mod Steps
pub mod Tallies
pub mod Lines
-- What restates private functions: what one activation takes, what is counted on the way, and a line by what is counted.
pub mod Taking
pub mod Counting
pub mod Told
