-- Laws of the rows of bytes.
pub mod Unique
