-- The seat of a table that tests step on.
pub mod SeatSteps
-- Numbers of activations that ascend.
pub mod Numbers
-- An element that is kept for an epoch.
pub mod KeptOne
