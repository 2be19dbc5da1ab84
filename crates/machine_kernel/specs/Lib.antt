pub mod Reached
pub mod Jump
pub mod Busy
pub mod Future
pub mod Kernel
pub mod Next
