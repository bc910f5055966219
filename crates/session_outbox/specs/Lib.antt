pub mod Calls
pub mod Messages
pub mod Outbox
