-- The record that a line says.
pub mod Records
