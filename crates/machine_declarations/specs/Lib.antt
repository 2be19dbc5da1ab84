pub mod FirstValues
pub mod Parts
