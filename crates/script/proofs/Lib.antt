-- Laws of the reading.
pub mod Filled
pub mod Steps
pub mod Unique
pub mod Verbs
pub mod Listing
