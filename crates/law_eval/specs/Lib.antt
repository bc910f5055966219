pub mod Owners
pub mod Telling
