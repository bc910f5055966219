pub mod Inner
pub mod SmallSteps
