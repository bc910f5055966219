pub mod Entries
pub mod Pages
pub mod Splices
pub mod Walks
pub mod Places
mod Zeros
