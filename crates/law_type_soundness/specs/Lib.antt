pub mod FitRows
pub mod Fits
pub mod Strict
