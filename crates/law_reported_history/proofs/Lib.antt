pub mod Reading
pub mod Listing
pub mod Told
pub mod Runs
pub mod Leaving
