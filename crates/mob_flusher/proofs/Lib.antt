pub mod Fits
pub mod Overlays
pub mod Maps
pub mod Writes
mod ImagesKept
