pub mod Lines
pub mod Places
pub mod Order
pub mod Answered
