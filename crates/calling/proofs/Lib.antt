-- Laws that the proofs cite, and no second outcome.
pub mod Ends
pub mod Unique
