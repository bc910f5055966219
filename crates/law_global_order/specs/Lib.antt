pub mod Examples
pub mod Serial
pub mod Turns
pub mod Whole
