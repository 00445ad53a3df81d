pub mod Gathering
pub mod GoingOn
pub mod Meaning
