pub mod Accepted
pub mod Drafted
pub mod Created
pub mod FewTasks
pub mod Objects
