-- Laws that the proofs cite.
pub mod Outcomes
pub mod Unique
