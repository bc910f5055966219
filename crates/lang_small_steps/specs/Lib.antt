pub mod Methods
pub mod Typed
pub mod Placed
pub mod Resume
pub mod Reaches
pub mod Due
pub mod Naming
