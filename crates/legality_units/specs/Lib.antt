pub mod Parts
pub mod Along
