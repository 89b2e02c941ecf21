-- Any of the three events where the page buffer lies with the caller.
pub mod Turns
