-- What a serprog programmer answers, and what it shows.
pub mod Commands
pub mod Showing
