pub mod Parts
pub mod FoundIs
