pub mod Lasting
pub mod Refusing
