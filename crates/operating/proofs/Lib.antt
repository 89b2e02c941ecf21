-- Laws that the proofs cite, and what holds of the rules.
pub mod Laws
pub mod Answers
pub mod Time
pub mod Unique
