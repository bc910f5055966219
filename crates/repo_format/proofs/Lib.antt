pub mod Closed
pub mod Empty
pub mod Failed
pub mod First
pub mod Roots
