-- What a reader believes: what is drawn of a run, and the text of its graphs.
pub mod DrawnRun
pub mod Tasks
pub mod Streams
pub mod Arrows
pub mod Links
pub mod Graph
-- What restates private functions.
pub mod Drawing
pub mod Tables
pub mod Tally
