pub mod Falling
pub mod Making
pub mod Marking
pub mod Next
pub mod Recording
pub mod Returning
pub mod Steps
pub mod Telling
