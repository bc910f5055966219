pub mod Given
pub mod Holding
pub mod Marking
pub mod Taken
