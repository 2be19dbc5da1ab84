pub mod ListLemmas
mod PlaceLemmas
