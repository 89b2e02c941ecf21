-- A serprog command half heard.
pub mod Heard
