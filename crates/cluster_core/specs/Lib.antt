pub mod Committed
pub mod Counts
pub mod Failing
pub mod Happening
pub mod Histories
pub mod Restarting
pub mod Seated
