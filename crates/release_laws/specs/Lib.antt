pub mod Asked
pub mod ReleaseLaws
pub mod MomentLaws
pub mod ChargeLaws
pub mod Examples
