-- Laws of comparing, and no second outcome.
pub mod Compared
pub mod Unique
pub mod Tells
