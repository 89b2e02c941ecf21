-- What the loops leave.
pub mod Patched
