-- What a line says to the store, and the store's calls on what the bench lends.
pub mod Lists
pub mod Calls
