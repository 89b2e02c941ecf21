-- What the reads leave in the reply and the marks.
pub mod Upto
