pub mod Recovering
