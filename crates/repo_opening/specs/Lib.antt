pub mod Paged
pub mod Recovered
pub mod Same
pub mod Told
pub mod Unsound
