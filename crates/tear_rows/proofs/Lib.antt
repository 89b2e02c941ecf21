-- What holds of the functions.
pub mod Unique
