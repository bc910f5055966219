pub mod Behind
pub mod Calls
pub mod Moving
pub mod Objects
pub mod Refusing
pub mod Restarting
pub mod Shown
pub mod Telling
