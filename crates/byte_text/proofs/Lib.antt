-- Laws of bytes as text.
pub mod Laws
pub mod Unique
