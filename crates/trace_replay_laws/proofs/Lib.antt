pub mod Lawful
pub mod Taking
pub mod Heads
pub mod Answering
