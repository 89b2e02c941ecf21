-- When what a script expects is met.
pub mod Expectations
