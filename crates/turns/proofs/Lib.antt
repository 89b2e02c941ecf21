-- Laws that the proofs cite.
pub mod Events
pub mod Unique
