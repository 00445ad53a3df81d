pub mod HeldStreams
pub mod KeptPlaces
pub mod StreamsBehind
mod Stretches
mod Through
mod Reading
mod Held
mod NextReads
mod NextWrites
mod Next
mod NextApart
mod Joined
mod Last
mod GivenUp
