-- What a reader believes: the parts of a code, when they are valid, and what the machine does.
pub mod Parts
pub mod Effects
pub mod IsValid
pub mod Machine
pub mod Tasks
pub mod Control
pub mod Chains
pub mod Heights
pub mod Laws
pub mod Codes
-- Which neighbouring instructions the machine takes at once.
pub mod Forms
-- The machine's runs as functions, by which examples are computed.
pub mod Running
pub mod Outcomes
pub mod Checking
-- Codes written out.
pub mod Examples
pub mod ControlExamples
pub mod Refusals
-- What restates private functions.
pub mod Needs
pub mod NeedTables
