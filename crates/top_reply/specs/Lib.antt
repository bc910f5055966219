pub use Rattle.top_history_check.specs.Lines
pub mod Replies
pub mod Reports
pub mod Statuses
pub mod Texts
