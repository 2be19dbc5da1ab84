pub mod Seen
pub mod Places
