pub mod Absent
pub mod Drops
pub mod Parts
