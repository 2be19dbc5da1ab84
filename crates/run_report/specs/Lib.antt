pub mod Accounts
pub mod Clocks
pub mod Kept
pub mod Texts
