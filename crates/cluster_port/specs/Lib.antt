pub use Rattle.repo_site.specs.Begun
pub use Rattle.repo_site.specs.Failing
pub use Rattle.repo_site.specs.Happening as SiteHappening
pub use Rattle.repo_site.specs.Run
pub use Rattle.repo_site.specs.Sited
pub mod Counting
pub mod Happening
pub mod Lent
