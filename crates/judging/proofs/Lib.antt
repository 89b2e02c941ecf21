-- Laws that the proofs cite.
pub mod Reaches
pub mod Judged
pub mod Unique
