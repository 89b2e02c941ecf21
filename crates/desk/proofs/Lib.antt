-- No second outcome.
pub mod Unique
