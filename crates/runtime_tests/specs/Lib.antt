-- The seat of a table that tests step on.
pub mod OneSeat
-- What a hand is told by the lines that it asks.
pub mod Told
-- Activations of which tests make epochs.
pub mod Worked
