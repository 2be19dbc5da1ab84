pub mod Packages
pub mod Sources
pub mod Given
