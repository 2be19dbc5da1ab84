pub mod ExpressionFolds
pub mod LabelFolds
pub mod StatementFolds
pub mod SequenceFolds
