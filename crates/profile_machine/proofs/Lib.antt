pub mod PlaceLemmas
pub mod FrameCountLemmas
pub mod OrderLemmas
pub mod ReadyLemmas
pub mod AgendaLemmas
pub mod EventFactLemmas
