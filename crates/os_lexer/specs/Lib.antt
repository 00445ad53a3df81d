-- What a reader believes: the forms of lexemes and what each does, names and their numbers, the token cover with the
-- first fault, and what follows of them.
pub mod Bytes
pub mod Lines
pub mod Limits
pub mod Marks
pub mod Keywords
pub mod Numbers
pub mod Names
pub mod Forms
pub mod Effects
pub mod Cover
pub mod Cut
pub mod Answer
pub mod Laws
-- What restates the functions below `lex` for their contracts.
pub mod Reading
pub mod Spellings
pub mod States
