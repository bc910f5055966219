pub mod Coordinating
pub mod Forgetting
pub mod Handing
pub mod Leaving
pub mod Stamping
pub mod Trying
