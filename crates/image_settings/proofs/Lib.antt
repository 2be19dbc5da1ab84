pub mod TypeFolds
