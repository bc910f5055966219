pub mod Judging
pub mod Opened
pub mod Upgrading
