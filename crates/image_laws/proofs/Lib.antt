pub mod Images
pub mod Forms
