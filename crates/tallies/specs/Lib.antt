-- What a script's last row counts.
pub mod Tallies
