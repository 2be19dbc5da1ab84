pub mod ListLemmas
pub mod Moves
pub mod FineMoves
pub mod Chains
pub mod FinestMoves
mod AtOnce
pub mod Kept
pub mod Plain
pub mod TimeLemmas
pub mod LineLemmas
mod AppointmentLemmas
pub mod DueLemmas
mod ItemLemmas
pub mod ReachedLemmas
pub mod NumberLemmas
pub mod RunLemmas
mod QuietLemmas
mod IdleLemmas
mod BusyLemmas
mod RepresentationLemmas
mod OrderLemmas
pub mod PlaceLemmas
pub mod QueueLemmas
pub mod DispatchLemmas
