-- What a reader believes: what is written of a text that goes on to a program, and what is reported of a text.
pub mod Completions
pub mod Findings
pub mod Listed
pub mod Reports
pub mod Warned
-- What restates private functions.
pub mod Marks
