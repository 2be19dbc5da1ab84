pub mod Source
pub mod Tallies
