-- What a reader believes: what the production of a program gives of tokens, beside what tokens mean, which stands in os_ast.
pub mod Laws
-- What each production gives, one definition for each function that reads it, and what it asks of the next token.
pub mod Kinds
pub mod Reading
pub mod Operands
pub mod Expressions
pub mod Beginners
pub mod Statements
