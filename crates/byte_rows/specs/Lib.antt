-- Rows of bytes.
pub mod Bytes
pub mod Unheld
