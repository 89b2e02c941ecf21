-- Laws that the proofs cite.
pub mod Records
pub mod Unique
