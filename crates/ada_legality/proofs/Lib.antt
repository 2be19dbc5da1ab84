pub mod Lists
pub mod ExpressionFolds
pub mod StatementFolds
pub mod SequenceFolds
