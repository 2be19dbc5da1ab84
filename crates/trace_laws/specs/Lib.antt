pub mod Actions
pub mod Regions
pub mod Room
pub mod Rows
pub mod Verdicts
pub mod Watched
