pub mod PlaceLemmas
pub mod FoundLemmas
pub mod RosterOrderLemmas
pub mod RosterNotesLemmas
