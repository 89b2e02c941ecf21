-- Slots as code finds them.
pub mod Slots
pub mod Unique
