-- Laws of the reasons.
pub mod Unique
