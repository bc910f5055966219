pub mod Told
pub mod Found
pub mod Rightness
pub mod Agreeing
