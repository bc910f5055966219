pub use Rattle.repo_site.proofs.Begun
pub mod Counting
mod Happening
pub mod Lending
pub mod Placing
