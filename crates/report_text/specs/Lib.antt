pub mod Lines
pub mod Words
pub mod Report
pub mod Fits
pub mod Shown
pub mod Examples
