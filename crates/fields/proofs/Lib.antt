-- Laws that the proofs cite.
pub mod Sames
pub mod Unique
