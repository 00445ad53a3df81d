-- What a reader believes: how large a run may be, how an activation ends, what is there of an element, what an activation makes of poison,
-- the states of a run,
pub mod Limits
pub mod Outcome
pub mod Byte
pub mod Element
pub mod Poisoning
pub mod Round
-- what a list of activations means,
pub mod FirstPosition
pub mod Window
pub mod Place
pub mod Streams
pub mod There
-- and the same over a plan.
pub mod Plans
pub mod IsSound
pub mod StandsFor
pub mod Serves
pub mod Laws
