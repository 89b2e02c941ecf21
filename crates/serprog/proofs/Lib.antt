-- Laws that the proofs cite, and what holds of the rules.
pub mod Arms
pub mod Laws
pub mod Map
pub mod Disguise
pub mod Unique
