-- Laws that the proofs cite.
pub mod Shows
pub mod Unique
