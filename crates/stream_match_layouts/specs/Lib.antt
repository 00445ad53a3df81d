-- What a reader believes: the activations that are taken, and what a layout says of them,
pub mod Lawful
pub mod Layout
-- its spans by activation, the write spans of a stream,
pub mod Spans
pub mod Writers
-- how a claim moves the cursors of streams, and where its window lies among the inputs or outputs of its activation.
pub mod Cursors
pub mod Offsets
-- What restates private functions: adding a claim.
pub mod Adding
