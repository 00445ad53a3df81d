pub mod Meanings
pub mod Finding
pub mod ReadSoFar
pub mod Written
pub mod Stretches
pub mod Slices
pub mod Next
pub mod Batches
