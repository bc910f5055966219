pub mod Agreeing
pub mod Coming
