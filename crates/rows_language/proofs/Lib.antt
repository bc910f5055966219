pub mod CountedLoop
pub mod MixedOwned
pub mod NeedLevels
pub mod RunForms
pub mod TfForms
pub mod TwiceKeeps
pub mod UpgradeForms
