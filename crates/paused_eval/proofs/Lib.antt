pub mod Beginning
pub mod Counting
pub mod Directly
pub mod Ending
mod FieldPlaces
pub mod Granted
pub mod Hands
pub mod Later
pub mod Lifting
pub mod Methods
mod Names
pub mod Nodes
pub mod Standing
pub mod Unwinding
pub mod Writes
