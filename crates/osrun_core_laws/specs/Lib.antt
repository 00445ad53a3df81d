-- What a reader believes: that the runs of jobs and of objects starve by chains, and when a line tells a chain.
pub mod Chains
