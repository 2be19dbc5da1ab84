pub mod ActionsOfText
pub mod Clear
pub mod ImageLaws
pub mod Laws
pub mod OwnScopes
pub mod ScopesOfText
