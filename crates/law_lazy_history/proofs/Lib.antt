pub mod Aside
pub mod Runs
pub mod Steps
pub mod Histories
