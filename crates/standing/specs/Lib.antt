-- The bench between two lines of a script.
pub mod Deeds
pub mod Benches
pub mod Expected
