pub mod Totals
pub mod Spans
pub mod Reading
pub mod Joined
pub mod Sizes
pub mod Linked
