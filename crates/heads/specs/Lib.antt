-- A line's first row, the row below it, and the rows of a status.
pub mod Heads
pub mod Statuses
