pub mod Checkpoints
pub mod Holding
pub mod Opened
pub mod ValueLaws
pub mod Formats
