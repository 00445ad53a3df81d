-- What a reader believes: the clauses of `check` cite these.
pub mod Listed
pub mod Refusal
-- What restates the parts of the walk for their own contracts.
pub mod Statements
