pub mod Moving
pub mod Rules
pub mod Showing
pub mod Stepping
pub mod Writing
