pub mod ExpressionFolds
pub mod Mapped
pub mod Maps
pub mod SequenceFits
pub mod SequenceFolds
