pub mod LazyExamples
pub mod NeedRows
pub mod RunRows
pub mod TextRows
pub mod UpgradeRows
