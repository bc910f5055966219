pub mod AuditLaws
pub mod BaseLaws
pub mod DiskLaws
pub mod StageLaws
pub mod TellingLaws
