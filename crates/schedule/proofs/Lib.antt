pub mod Breaches
pub mod Schedules
pub mod Faults
pub mod Parses
