pub mod Faultless
pub mod NothingFound
pub mod Policies
pub mod Ranges
