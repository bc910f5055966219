pub mod Examples
pub mod Items
pub mod Justified
pub mod Made
pub mod Naming
pub mod Shown
