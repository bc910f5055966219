pub mod Made
pub mod Tidy
pub mod Steps
pub mod Fields
pub mod Walk
pub mod Bodies
pub mod Runs
