pub mod Cores
pub mod CallLemmas
pub mod SameLemmas
pub mod LevelMoves
pub mod Kept
