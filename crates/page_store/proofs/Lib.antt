pub mod ObjectBytes
pub mod Tears
pub mod Sides
pub mod Stores
