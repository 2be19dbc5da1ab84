mod LevelLemmas
mod OrderLemmas
