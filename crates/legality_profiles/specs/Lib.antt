pub mod Shown
pub mod Beside
