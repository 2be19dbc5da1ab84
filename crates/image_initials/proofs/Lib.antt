pub mod Before
pub mod OneByOne
