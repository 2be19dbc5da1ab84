pub mod Did
pub mod Lends
pub mod Refused
pub mod Struck
