pub mod Opens
pub mod BegunExprs
pub mod BegunParts
pub mod BegunStmts
pub mod FrontOfRefusal
