pub mod Broken
pub mod First
pub mod Kept
pub mod Numbers
pub mod Plant
pub mod Second
