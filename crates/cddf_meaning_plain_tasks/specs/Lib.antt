-- what a reader believes
pub mod Arounds
-- what restates functions
pub mod Has
pub mod Sought
