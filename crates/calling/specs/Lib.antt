-- Lines that store a station, find one or ask for the list.
pub mod Lines
