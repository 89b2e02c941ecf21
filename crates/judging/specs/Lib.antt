-- What the decision is asked.
pub mod Judging
