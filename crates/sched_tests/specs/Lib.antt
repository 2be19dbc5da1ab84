pub mod Least
pub mod Tables
pub mod Reading
pub mod Response
pub mod Demand
pub mod Chunks
pub mod Reports
pub mod Floors
