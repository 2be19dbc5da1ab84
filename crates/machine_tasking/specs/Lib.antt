pub mod Aborted
pub mod Calm
pub mod KeptTasks
