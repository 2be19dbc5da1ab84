pub mod Alone
pub mod Stops
pub mod Ticks
