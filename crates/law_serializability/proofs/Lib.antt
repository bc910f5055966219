pub mod Turns
pub mod Changes
pub mod Checked
pub mod Serial
pub mod Resting
pub mod Reopening
