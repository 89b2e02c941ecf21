-- What a read shows, and the slot that a search gives.
pub mod Reads
