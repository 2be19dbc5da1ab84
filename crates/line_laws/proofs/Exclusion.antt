pub mod OwnLines
pub mod ObjectLists
pub mod ActionLists
pub mod ExclusionLemmas
