-- What a command is asked, and what a frame that is turned away gets.
pub mod Framing
