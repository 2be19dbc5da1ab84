pub mod OneByOne
pub mod NextValue
