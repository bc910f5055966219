pub mod Depth
pub mod SmallSteps
