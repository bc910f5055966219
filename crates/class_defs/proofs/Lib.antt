pub mod ActionWords
pub mod KeptRules
pub mod Levels
pub mod NumbersBehind
pub mod RuleForms
pub mod RunOutcomes
pub mod SameNames
pub mod StandIns
