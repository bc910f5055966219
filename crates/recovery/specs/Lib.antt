pub mod Damage
pub mod Faults
pub mod Found
pub mod Migrating
pub mod Paged
pub mod Reopening
