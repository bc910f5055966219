pub mod Answers
pub mod Does
pub mod Marks
pub mod Names
pub mod Viewed
