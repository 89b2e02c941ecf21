-- Laws that the proofs cite.
pub mod Clauses
pub mod Unique
