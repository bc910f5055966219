pub mod Plainly
pub mod Closed
pub mod Search
pub mod Behind
pub mod Apart
