-- Laws of the steps of a call.
pub mod Steps
pub mod Clears
pub mod Calls
pub mod Unique
