pub mod Clauses
pub mod Loop
pub mod Objects
