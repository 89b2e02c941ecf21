-- Laws that the proofs cite.
pub mod Upto
pub mod Turns
pub mod Unique
