-- The laws of document 02's W-203.
pub mod Outcomes
pub mod Bytes
pub mod Parts
pub mod Records
pub mod Laws
pub mod Faults
pub mod Given
pub mod Trips
pub mod Cases
pub mod Unique
