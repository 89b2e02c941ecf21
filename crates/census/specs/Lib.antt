-- The slots of the station list counted.
pub mod Census
