pub mod LevelLemmas
pub mod FollowLemmas
pub mod ObjectLemmas
pub mod CeilingLemmas
pub mod ExampleLemmas
