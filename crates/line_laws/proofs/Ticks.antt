pub mod LineByLine
pub mod SwitchLemmas
pub mod ReleaseLemmas
pub mod OrderLemmas
pub mod StuckLemmas
pub mod TestLemmas
