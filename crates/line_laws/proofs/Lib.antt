pub mod Ticks
pub mod Printing
pub mod Exclusion
pub mod Leaving
pub mod Exits
pub mod Handlers
