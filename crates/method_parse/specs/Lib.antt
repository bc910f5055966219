pub mod Matching
pub mod Reader
pub mod Expressions
pub mod Statements
pub mod Setups
pub mod Texts
