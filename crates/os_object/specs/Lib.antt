-- What a reader believes: the bytes of parts, what they are read as, and what becomes of codes that are written and read.
pub mod Object
pub mod Answers
pub mod RoundTrip
-- What restates private functions.
pub mod Fronts
