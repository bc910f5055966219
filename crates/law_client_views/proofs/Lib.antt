pub mod Agreed
pub mod Grown
pub mod Judged
pub mod Meeting
pub mod Restarted
pub mod Restarting
pub mod Stopping
