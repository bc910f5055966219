pub mod Numbers
pub mod Kinds
pub mod Schedule
pub mod Breaks
pub mod Written
pub mod Rows
