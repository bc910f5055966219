pub mod Examples
pub mod Holds
pub mod Opening
pub mod Recovered
pub mod Values
