pub mod NameLemmas
pub mod RunLines
pub mod Printable
pub mod TextLemmas
pub mod Puts
pub mod Runs
pub mod Tests
pub mod BoundLemmas
