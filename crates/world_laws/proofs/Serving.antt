pub mod ServingEnds
pub mod ServingRuns
