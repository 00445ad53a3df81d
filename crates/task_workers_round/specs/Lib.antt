-- What a reader believes: what the frames of a round came to.
pub mod Results
-- What restates private functions: what a part of a round is run with.
pub mod Parts
