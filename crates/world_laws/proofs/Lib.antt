mod Behind
pub mod Counts
pub mod Appointments
pub mod Places
pub mod Scopes
pub mod Cells
pub mod Actions
pub mod Marks
pub mod Sequences
pub mod Queues
pub mod Serving
pub mod Formed
