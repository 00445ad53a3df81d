-- What a reader believes: the clauses of the laws cite these.
pub mod CapturedByUse
pub mod Globals
pub mod Known
pub mod NameTokens
pub mod Order
pub mod Slots
pub mod Sums
pub mod Told
pub mod UnitSlots
-- What the proofs and the walk of the checks ask for. No definition restates a private function.
pub mod Room
