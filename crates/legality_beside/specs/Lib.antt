pub mod Bodies
pub mod Passing
pub mod Ordered
pub mod Judging
