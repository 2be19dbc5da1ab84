pub mod ActualLemmas
pub mod Given
