pub mod AlongIs
pub mod Beside
