-- The boundary to other languages.
pub mod Boundary
pub mod Refusals
pub mod Images
pub mod Demands
