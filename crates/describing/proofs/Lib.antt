-- Laws of what is told.
pub mod Tellings
pub mod Places
pub mod Operands
pub mod Unique
