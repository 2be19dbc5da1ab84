pub mod Acting
pub mod CeilingLaws
pub mod Cores
pub mod Examples
pub mod FollowLaws
pub mod PlaceLaws
pub mod Puts
pub mod RunLaws
