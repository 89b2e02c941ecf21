-- The rows of what was stopped and torn.
pub mod Tears
