-- Laws that the proofs cite.
pub mod Flags
pub mod Unique
