-- Laws that the proofs cite.
pub mod Found
pub mod Unique
