pub mod Alike
pub mod Coverage
pub mod Early
pub mod Gathering
pub mod Once
pub mod ReadAlike
