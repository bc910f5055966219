pub mod Left
pub mod Reported
