-- Laws that the proofs cite.
pub mod Parts
pub mod Happenings
pub mod Unique
