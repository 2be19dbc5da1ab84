pub mod ActionLemmas
pub mod PlaceLemmas
