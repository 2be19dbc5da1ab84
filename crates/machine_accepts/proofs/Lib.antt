pub mod AlternativeLemmas
pub mod QueueLemmas
