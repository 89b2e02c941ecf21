-- Laws of the boundary.
pub mod Calls
pub mod Outcomes
pub mod Unique
pub mod Refusals
pub mod Typed
pub mod Judged
pub mod Images
pub mod Runs
