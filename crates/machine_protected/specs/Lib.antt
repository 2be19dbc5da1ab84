pub mod Operations
pub mod Turns
