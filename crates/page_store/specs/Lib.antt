pub mod Faults
pub mod Objects
pub mod Sides
pub mod Store
