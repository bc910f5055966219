pub mod Audits
pub mod Kept
pub mod Opening
pub mod Reports
pub mod Telling
pub mod Top
pub mod Written
