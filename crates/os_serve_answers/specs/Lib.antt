-- What a reader believes: what jobs are answered, where the server stands between two of them, and what a call of it leaves.
pub mod Replies
pub mod Between
pub mod Serving
pub mod Said
-- What restates private functions.
pub mod Answered
