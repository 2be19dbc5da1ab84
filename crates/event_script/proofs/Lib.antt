pub mod Endings
pub mod InOrder
pub mod LongScripts
pub mod OneMore
pub mod Refusals
