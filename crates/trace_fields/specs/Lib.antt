pub mod Reading
pub mod Spelt
