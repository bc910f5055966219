pub mod Seen
pub mod Vouching
