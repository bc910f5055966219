pub mod AcceptedUpgrades
pub mod JudgingLaws
pub mod NamedUpgrades
pub mod UpgradingLaws
pub mod OpenedFits
pub mod OpenedOwned
pub mod Extending
mod OutsideLaws
