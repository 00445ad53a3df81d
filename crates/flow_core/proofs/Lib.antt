pub mod Carrying
pub mod Showing
pub mod Running
pub mod Gathering
pub mod Ending
