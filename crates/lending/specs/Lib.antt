-- An event on what is lent.
pub mod Lending
