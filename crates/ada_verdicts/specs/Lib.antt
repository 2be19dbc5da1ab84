pub mod Refusals
pub mod Accepted
