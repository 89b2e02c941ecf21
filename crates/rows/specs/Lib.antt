-- The rows of a script.
pub mod Events
pub mod Questions
