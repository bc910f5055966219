pub mod Alike
pub mod AlikeCalls
pub mod AlikeObjects
pub mod AlikeRun
pub mod AlikeSteps
pub mod TouchedStores
