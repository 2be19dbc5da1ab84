pub mod Joined
pub mod MoreLines
pub mod MoreTasks
