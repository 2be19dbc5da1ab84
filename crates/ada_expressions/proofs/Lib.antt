pub mod Levels
pub mod ItemLoop
pub mod Turns
