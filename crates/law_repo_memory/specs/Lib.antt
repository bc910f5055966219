pub mod Agreeing
pub mod Coming
pub mod Judging
pub mod Running
pub mod Tables
