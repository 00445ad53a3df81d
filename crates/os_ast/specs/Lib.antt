-- What a reader believes: the trees, their spelling, where each part may stand, depth, and what tokens mean; scopes, what
-- stands where, the rules with their codes and limits, and what names mean.
pub mod Captured
pub mod ClauseMembers
pub mod Codes
pub mod Depth
pub mod FreeNames
pub mod Fronts
pub mod Leveled
pub mod Limits
pub mod Marks
pub mod Meanings
pub mod Means
pub mod Names
pub mod Notes
pub mod Operators
pub mod Rules
pub mod Spelling
pub mod Trees
pub mod Unsigned
pub mod Views
pub mod Violations
-- What laws and examples say of these. No definition restates a private function.
pub mod Beginnings
pub mod Examples
pub mod Kept
pub mod Stacked
