pub mod Entering
pub mod Keeps
pub mod Making
pub mod Said
pub mod Unfit
