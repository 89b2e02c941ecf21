-- Document 02, W-203, as definitions, in its order: the file of a chip, a right file, what the two functions promise. Then laws, cases, and what is wrong first.
pub mod Form
pub mod Files
pub mod Promises
pub mod Given
pub mod Laws
pub mod Faults
pub mod Cases
