-- What restates private functions for their contracts: where a replay stands, and which list a frame stands in.
pub mod Owners
pub mod Standing
