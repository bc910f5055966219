pub mod Map
pub mod Images
pub mod KeptImages
