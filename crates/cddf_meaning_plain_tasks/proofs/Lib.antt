pub mod Finding
pub mod HasNames
pub mod Mains
pub mod Numbered
