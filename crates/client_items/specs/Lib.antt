pub mod Courses
pub mod Ending
pub mod Falling
pub mod Meanings
