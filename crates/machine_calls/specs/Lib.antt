pub mod Depths
pub mod Endings
pub mod UnwindingSteps
pub mod Unwindings
