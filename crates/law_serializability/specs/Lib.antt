pub mod Reopening
pub mod Resting
pub mod WholeHistory
