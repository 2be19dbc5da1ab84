pub mod LinesAgain
pub mod LinesShort
pub mod TextsDiffer
