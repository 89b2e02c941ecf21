-- The meaning of each number.
pub mod Meanings
