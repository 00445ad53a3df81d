pub mod Blocks
pub mod Loops
pub mod Ordered
pub mod ProgramRuns
pub mod Rules
