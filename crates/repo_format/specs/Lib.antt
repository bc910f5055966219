pub mod Fresh
pub mod Pages
