pub mod Behind
pub mod Names
pub mod OneTold
pub mod Pieces
