pub mod LawsFollowed
