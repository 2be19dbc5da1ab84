pub mod Asked
pub mod Sights
