pub mod AcrossExamples
pub mod AskedExamples
pub mod Asking
pub mod AtomicTest
pub mod Growing
pub mod Several
