pub mod CellLists
pub mod RightCells
pub mod Kept
pub mod CellWorlds
