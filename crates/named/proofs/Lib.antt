-- Laws of lists of opcodes.
pub mod Lists
pub mod Unique
