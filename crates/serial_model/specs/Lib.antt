pub mod History
pub mod Outcomes
pub mod ReplayRows
pub mod Replaying
pub mod Replays
pub mod Upgrading
pub mod Whole
