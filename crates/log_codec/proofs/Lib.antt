pub mod CheckpointLaws
pub mod Exact
pub mod Grammars
pub mod Loops
pub mod RiseLaws
pub mod WholeLaws
