pub mod Fits
pub mod Naming
pub mod Numbers
pub mod Reached
pub mod Spelled
pub mod Tests
pub mod Ways
