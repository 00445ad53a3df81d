-- What a reader believes.
pub mod Trapping
pub mod Operators
pub mod Unsigned
pub mod Typed
-- What else ends a run of a program.
pub mod Traps
pub mod ControlLimits
-- Laws of these definitions.
pub mod Laws
pub mod Machine
