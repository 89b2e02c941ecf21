-- Laws of the first locked block.
pub mod First
pub mod Unique
