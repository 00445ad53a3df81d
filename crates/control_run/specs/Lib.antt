-- What a reader believes: how a run gives its activations by stretches. What they are stands in os_code and stream_match.
pub mod Stretches
-- What restates private functions.
pub mod Spawning
pub mod Sparing
pub mod Ticking
pub mod Ending
pub mod Going
pub mod Standing
