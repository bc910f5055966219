pub mod Beginning
pub mod ByReading
pub mod Lending
pub mod Taking
pub mod Working
