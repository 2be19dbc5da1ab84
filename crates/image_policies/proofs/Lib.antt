pub mod Least
pub mod Longest
pub mod Ranges
