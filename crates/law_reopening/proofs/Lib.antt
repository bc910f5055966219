pub mod Example
pub mod Opens
