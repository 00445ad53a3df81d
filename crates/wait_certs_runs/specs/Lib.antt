-- What a reader believes: the runs of programs and of codes, which of their activations starve and why, how many steps a run takes, and
-- with which values tasks begin.
pub mod Meant
pub mod Starving
pub mod Steps
pub mod Types
