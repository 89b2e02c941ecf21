-- What a line of a script does to the bench.
pub mod Lines
