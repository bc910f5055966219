pub mod Doomed
pub mod Examples
pub mod Fitting
pub mod Links
pub mod Refusing
pub mod Seen
pub mod Steps
pub mod Verdicts
