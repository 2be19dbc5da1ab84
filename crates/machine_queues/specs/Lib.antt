pub mod Lends
pub mod Queues
