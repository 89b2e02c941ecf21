-- One operation on the bench chip.
pub mod Operations
