-- Laws of rows.
pub mod Laws
pub mod Picks
pub mod Shown
pub mod Unique
