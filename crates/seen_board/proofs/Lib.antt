pub mod Coherence
pub mod Keeps
pub mod Known
pub mod Next
pub mod Owned
pub mod Prefixes
pub mod Rows
