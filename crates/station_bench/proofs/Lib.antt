-- The exported functions of the station list.
pub mod Calls
pub mod Unique
