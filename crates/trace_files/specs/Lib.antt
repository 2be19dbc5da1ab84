pub mod Texts
pub mod Judged
pub mod Reported
