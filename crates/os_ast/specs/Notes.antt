-- What is in scope where, and what stands there: over the tree, part by part, and with no rule in it.
pub mod Clauses
pub mod Declarators
pub mod Expressions
pub mod Kinds
pub mod Programs
pub mod Statements
