pub mod Rising
pub mod Expressions
pub mod Simple
pub mod Constructs
pub mod Bodies
pub mod Units
pub mod Whole
pub mod Sources
