-- What a reader believes: what a longest chain is.
pub mod Chains
-- What restates private functions: what is known on the way.
pub mod Behind
