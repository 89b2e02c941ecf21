-- Laws that the proofs cite.
pub mod Hinted
pub mod Unique
