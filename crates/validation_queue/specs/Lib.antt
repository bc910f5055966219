pub mod Clashes
pub mod Contents
pub mod Names
