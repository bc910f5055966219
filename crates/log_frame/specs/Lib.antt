pub mod Log
pub mod Faults
pub mod Parsed
