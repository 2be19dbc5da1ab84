pub mod Ticks
pub mod Alone
