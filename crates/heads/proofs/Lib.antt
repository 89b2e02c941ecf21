-- Laws of the first rows.
pub mod Unique
