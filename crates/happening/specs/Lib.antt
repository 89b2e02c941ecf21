-- Frames, completions and power cuts of a script.
pub mod Events
