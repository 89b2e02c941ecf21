-- What the player tells.
pub mod Parts
pub mod Totals
pub mod Arguments
