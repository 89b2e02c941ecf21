-- What a script sets.
pub mod Settings
