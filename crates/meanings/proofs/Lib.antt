-- Laws that the proofs cite.
pub mod Texts
pub mod Unique
