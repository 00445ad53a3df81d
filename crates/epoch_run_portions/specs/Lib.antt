-- What a reader believes: what a portion of a run comes to.
pub mod Portion
-- What restates private functions: the positions behind activations that were passed, how the control program is walked, and running on.
pub mod Positions
pub mod Walk
pub mod Running
