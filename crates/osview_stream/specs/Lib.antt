-- What a reader believes: which stream a word names, and the lines of a stream's elements.
pub mod Called
pub mod Elements
-- What restates private functions: the elements by what is kept of a run.
pub mod Given
