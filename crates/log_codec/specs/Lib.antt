pub mod Checkpoint
pub mod Format
pub mod Grammar
