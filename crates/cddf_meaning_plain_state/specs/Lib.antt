-- what a reader believes
pub mod Ends
pub mod Seen
pub mod Stops
-- what restates functions
pub mod Claimed
pub mod FunctionTrees
pub mod Moving
pub mod Places
