-- The order of what is told.
pub mod Order
