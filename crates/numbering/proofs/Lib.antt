-- Laws that the proofs cite.
pub mod Works
pub mod Unique
