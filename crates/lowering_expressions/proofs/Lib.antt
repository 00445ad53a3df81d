pub mod Rules
pub mod Targets
