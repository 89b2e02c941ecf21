-- Laws over the contracts.
pub mod Unique
