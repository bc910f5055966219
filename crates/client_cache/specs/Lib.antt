pub mod Changes
pub mod Copies
pub mod Looks
pub mod Pages
pub mod Placing
pub mod Slots
