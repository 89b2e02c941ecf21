-- Laws of reasons.
pub mod Reasons
pub mod Sentences
pub mod Unique
