-- The rows of a line that stores a station, finds one or asks for the list.
pub mod Stations
