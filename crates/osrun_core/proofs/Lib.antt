pub mod Says
pub mod Workers
