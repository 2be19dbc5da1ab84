pub mod Added
pub mod Shown
