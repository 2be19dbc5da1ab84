pub mod Blocking
pub mod Ordered
pub mod Settling
