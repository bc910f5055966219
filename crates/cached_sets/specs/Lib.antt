pub mod Bounds
pub mod Cost
pub mod Invalid
pub mod Meaning
pub mod Noted
pub mod Sets
pub mod Undoing
