pub mod ByReading
pub mod Reading
pub mod Sites
