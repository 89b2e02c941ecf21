-- Laws of words and of the table.
pub mod Picks
pub mod Lookups
pub mod Unique
pub mod Spelled
pub mod Keys
pub mod Verbs
