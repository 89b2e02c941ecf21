-- Laws of a session.
mod Parts
mod Operations
pub mod Unique
