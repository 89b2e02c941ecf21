-- A serprog session, byte by byte.
pub mod Sessions
