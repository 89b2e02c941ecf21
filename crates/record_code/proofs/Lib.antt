-- Laws of the code.
pub mod Laws
pub mod Faithful
pub mod Unique
