pub mod Parts
pub mod Grown
pub mod Staying
pub mod Traced
pub mod Committing
pub mod Asked
pub mod Forgetting
