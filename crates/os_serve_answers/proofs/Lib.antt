pub mod Ends
pub mod Headings
pub mod JobLines
pub mod Next
pub mod Says
pub mod Written
