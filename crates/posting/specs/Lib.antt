-- What becomes of the bench where a line saves, loads or compares a file.
pub mod Posts
