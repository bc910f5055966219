mod Finding
mod Marking
pub mod Meaning
pub mod Ordering
pub mod Places
mod Restoring
mod Touching
