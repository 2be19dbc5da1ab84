pub mod CellLemmas
pub mod OutwardsLemmas
