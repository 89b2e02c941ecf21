-- Laws that the proofs cite.
pub mod Grouped
pub mod Ranges
pub mod Shape
pub mod Unique
