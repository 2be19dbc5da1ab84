pub mod ExpressionFolds
pub mod StatementFolds
pub mod SequenceFolds
pub mod BuiltExpressionFolds
pub mod BuiltSequenceFolds
