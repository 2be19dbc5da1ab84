pub mod IndexesAre
