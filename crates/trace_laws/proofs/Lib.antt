pub mod ActionClosed
pub mod FrontOf
pub mod GoingOn
pub mod RegionsKept
pub mod VerdictsOnly
pub mod VerdictsSay
