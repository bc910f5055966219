pub mod Telling
pub mod Volatile
