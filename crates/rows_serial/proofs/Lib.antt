pub mod Standing
pub mod Missing
pub mod Opened
pub mod Rests
