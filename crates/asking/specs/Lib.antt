-- What a script asks.
pub mod Questions
