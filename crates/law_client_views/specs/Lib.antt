pub mod Conditions
pub mod Outages
pub mod Plain
pub mod Standing
