pub mod Lends
pub mod Sought
pub mod Stored
