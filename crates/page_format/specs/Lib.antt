pub mod Formats
pub mod Pages
pub mod Sides
pub mod Walking
