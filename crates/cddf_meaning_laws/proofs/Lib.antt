pub mod Numbers
pub mod Beginning
pub mod Captured
pub mod Reading
