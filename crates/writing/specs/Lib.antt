-- Rows of text.
pub mod Rows
