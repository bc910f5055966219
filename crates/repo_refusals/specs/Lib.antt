pub mod Covers
pub mod Queue
pub mod Refusals
pub mod Window
pub mod WindowExamples
