pub mod Happening
pub mod Restarting
pub mod Standing
