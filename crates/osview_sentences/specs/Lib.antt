-- What a reader believes: what became of the activations of a run, how that is said, and the lines that are told.
pub mod Facts
pub mod Names
pub mod Sentences
pub mod Readers
pub mod Amounts
pub mod Passing
pub mod Whole
pub mod Report
-- What restates private functions: how sentences are counted, which tasks read a stream, how far streams are read, and what sentences
-- are told over.
pub mod FirstReaders
pub mod Reaches
pub mod Tally
pub mod Contexts
