-- The words of a script's line.
pub mod Words
