pub mod Along
pub mod Beside
