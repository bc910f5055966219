pub mod Reads
pub mod Walked
pub mod Wants
