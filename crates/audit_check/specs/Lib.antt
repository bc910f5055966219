pub mod Agreement
pub mod Items
pub mod Lines
pub mod Standings
