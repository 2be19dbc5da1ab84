pub mod Words
pub mod Wrong
pub mod Given
pub mod Limits
pub mod Alone
