-- Laws of counts, and no second outcome.
pub mod Numbers
pub mod Unique
