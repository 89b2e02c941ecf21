-- Work and commands in words.
pub mod Works
pub mod Commands
