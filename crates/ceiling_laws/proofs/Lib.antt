pub mod Ceilings
pub mod Fine
pub mod Runs
pub mod Places
