pub mod AppliedClasses
pub mod AppliedRules
pub mod KeptByRules
pub mod KeptFields
pub mod UpgradeNumbers
