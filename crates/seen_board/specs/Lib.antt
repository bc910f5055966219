pub mod Clauses
pub mod Knowledge
pub mod Meaning
pub mod Rows
pub mod Rule
pub mod Steps
