pub mod FailLaws
pub mod HistoryLaws
pub mod LineLaws
pub mod ReplyLaws
pub mod StageLaws
