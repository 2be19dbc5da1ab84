pub mod FirstValueLemmas
pub mod QueueLemmas
