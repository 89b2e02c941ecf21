-- What the exported functions of the station list promise.
pub mod Boundary
