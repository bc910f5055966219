pub mod Acting
pub mod Growing
pub mod Views
pub mod Works
