-- What a reader believes: the contracts of what is public here cite these.
pub mod BrokenRules
pub mod Findings
pub mod Members
pub mod Scopes
pub mod Sizes
-- What restates the parts of this for their own contracts.
pub mod HidingEntries
pub mod Uses
