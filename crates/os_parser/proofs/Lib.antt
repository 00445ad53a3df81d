pub mod Fronts
pub mod Stmts
