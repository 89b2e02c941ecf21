-- How many bytes are shown.
pub mod Counts
