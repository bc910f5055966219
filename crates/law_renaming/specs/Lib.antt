pub mod Renaming
pub mod RenamingRows
