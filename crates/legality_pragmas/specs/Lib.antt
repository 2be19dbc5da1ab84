pub mod Arguments
pub mod Judging
pub mod Restrictions
pub mod Deadlines
