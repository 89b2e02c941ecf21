-- The rows of what is wrong with a file.
pub mod Faults
