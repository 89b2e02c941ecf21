-- Laws of what is told.
pub mod Unique
pub mod Words
