-- The rows of a line that saves, loads or compares a file.
pub mod Posts
