pub mod OneAtATime
