-- The numbers of the station list that no definition names.
pub mod Stations
