pub mod Making
pub mod Objects
