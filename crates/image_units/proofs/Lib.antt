pub mod Taken
pub mod Before
pub mod Attached
pub mod Latest
pub mod OneByOne
