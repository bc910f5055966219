pub mod Carrying
pub mod Copied
pub mod Handing
mod Holding
pub mod Keeping
pub mod Moving
pub mod Owing
pub mod Parting
pub mod Pending
mod Schemas
pub mod Sessions
pub mod Sharing
pub mod Stopping
pub mod Writing
