pub mod ActualLemmas
pub mod PieceLemmas
