-- Codes that tests write out.
pub mod Written
