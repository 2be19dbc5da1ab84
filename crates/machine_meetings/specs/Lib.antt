pub mod Called
pub mod Meetings
