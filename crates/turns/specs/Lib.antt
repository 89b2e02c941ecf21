-- What is known before an event.
pub mod Turns
