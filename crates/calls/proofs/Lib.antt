-- Laws that the proofs cite, and no second outcome.
pub mod Desks
pub mod Copies
pub mod Entries
pub mod Unique
