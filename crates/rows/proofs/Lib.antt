-- Laws of rows.
pub mod Runs
pub mod Dumps
pub mod Unique
