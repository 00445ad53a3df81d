-- What a reader believes: pieces, a plan over frames, numbers and reaches, whatever they are,
pub mod Stretch
pub mod Weave
-- and what these are in the plan of an epoch and in that of a whole run.
pub mod EpochPlan
pub mod Kept
pub mod Whole
-- What restates private functions: finding and placing pieces, cursors, and rows of stretches.
pub mod Walking
pub mod Cursors
pub mod EpochCode
