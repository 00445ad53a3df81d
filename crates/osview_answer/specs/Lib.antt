-- What a reader believes: where the names of streams stand, what is told of a run, of a stream and of steps, what is drawn of a run, what
-- explains an activation, and what a call leaves.
pub mod StreamNames
pub mod Told
pub mod Answers
pub mod Elements
pub mod AnswersStream
pub mod Steps
pub mod AnswersSteps
pub mod Drawn
pub mod AnswersGraph
pub mod Explanation
pub mod AnswersExplain
-- What restates private functions.
pub mod Source
pub mod Streams
pub mod Graphs
