-- Why refusal 8 was given.
pub mod Suspension
