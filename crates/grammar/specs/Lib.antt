-- The grammar of a script's line. The language as a whole is told in crate `script`, specs/Lib.
pub mod Places
pub mod Slots
pub mod Verbs
pub mod Table
