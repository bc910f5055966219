pub mod Nodes
pub mod Pairs
pub mod States
pub mod Tables
