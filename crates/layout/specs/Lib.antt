-- The numbers of the record's layout and of the station list that C and Rust have names for.
pub mod Numbers
