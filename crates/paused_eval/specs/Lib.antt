pub mod Begins
pub mod Copies
pub mod Counted
pub mod Direct
pub mod Does
pub mod FromPages
pub mod Standing
pub mod Writing
