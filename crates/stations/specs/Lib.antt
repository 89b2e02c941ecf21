-- 02, W-206, the station list: slots, the writes of a call, calls as programs of events, what the functions promise; then what is proved of them, and worked cases.
pub mod Slots
pub mod Plans
pub mod Calls
pub mod Promises
pub mod Given
pub mod Keeping
pub mod Records
pub mod Worked
pub mod Cases
