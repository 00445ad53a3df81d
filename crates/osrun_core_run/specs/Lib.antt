-- What a reader believes: what a run of a program or of a code over an input comes to, what lists of activations come to where a program
-- is run by them, and why a text or an object is refused.
pub mod Code
pub mod Refusal
pub mod Replay
pub mod ReplayLine
pub mod Run
pub mod RunOf
-- The laws of bodies, of programs and of their runs.
pub mod BodyLaws
pub mod Laws
-- What restates private functions.
pub mod Accepting
pub mod HandedBack
pub mod Planned
pub mod Reported
