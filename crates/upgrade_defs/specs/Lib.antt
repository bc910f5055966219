pub mod Expressions
pub mod Grammar
pub mod Printed
pub mod Rows
pub mod Spelling
pub mod Texts
pub mod Upgrades
