-- The array alone as a file.
pub mod Raw
