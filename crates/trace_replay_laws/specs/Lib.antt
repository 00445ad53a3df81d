-- What a reader believes: lawful orders, orders of lists, and what is answered about lists.
pub mod Orders
pub mod Lists
pub mod Answers
-- Laws of these definitions.
pub mod Laws
