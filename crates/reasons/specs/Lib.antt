-- Why an event was refused, and what of a line's expectations is not met.
pub mod Reasons
