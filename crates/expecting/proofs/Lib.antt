-- Laws that the proofs cite.
pub mod Firsts
pub mod Cases
pub mod Unique
