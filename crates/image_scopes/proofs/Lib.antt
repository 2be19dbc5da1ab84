pub mod Taken
pub mod Zeros
