pub mod Sizes
pub mod Names
pub mod Writes
pub mod Places
pub mod Pages
