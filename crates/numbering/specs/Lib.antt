-- Works as numbers.
pub mod Numbering
