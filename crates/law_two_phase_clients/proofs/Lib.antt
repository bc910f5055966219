pub mod Coordinators
pub mod LeftShares
pub mod Preparing
pub mod Stamps
pub mod Taken
pub mod Telling
