pub mod Paging
pub mod Reading
pub mod Syncing
pub mod SaidPages
