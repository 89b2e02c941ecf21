-- Why refusal 11 was given.
pub mod Locked
