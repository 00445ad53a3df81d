-- What a reader believes: the checks, and the three texts of reports.
pub mod Checks
pub mod Notes
pub mod Places
pub mod Plain
pub mod Gcc
pub mod Sarif
pub mod Forms
