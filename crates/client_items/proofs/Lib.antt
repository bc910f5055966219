pub mod Falling
mod Orders
mod Places
mod Settling
