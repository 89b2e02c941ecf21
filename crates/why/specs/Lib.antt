-- Why a number was given.
pub mod Why
