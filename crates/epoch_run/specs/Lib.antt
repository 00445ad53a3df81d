-- What a reader believes: what the activations of a code come to on the machine.
pub mod Run
-- What restates private functions: the bodies of activations that may have no end, what is held between two epochs, where a run
-- stands there and in control order, moving activations, and the positions of the next ones.
pub mod Bodies
pub mod Held
pub mod Standing
pub mod InOrder
pub mod Portioning
pub mod NextSpans
