pub mod Covered
pub mod Validated
pub mod Room
pub mod Queued
pub mod Clashing
pub mod Following
