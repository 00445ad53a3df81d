-- What a reader believes: what is said of the tokens before a refusal. The front of a program stands in os_ast.
pub mod Completions
