-- Laws that the proofs cite.
pub mod Patched
pub mod Repeated
pub mod Buffers
pub mod Finishes
pub mod Unique
