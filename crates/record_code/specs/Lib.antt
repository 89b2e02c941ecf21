-- The chip record as bytes.
pub mod Layout
