pub mod Facts
pub mod Formed
pub mod KeptOn
pub mod LevelLookups
pub mod PlacesOn
pub mod Ranked
pub mod RanksOn
pub mod Subjects
