-- Bytes as text.
pub mod Bytes
