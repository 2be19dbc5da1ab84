pub mod CallLists
pub mod FewerCalls
pub mod KeptFacts
pub mod MasterTrees
pub mod NumberedLists
pub mod ScopeCounts
pub mod ServeCounts
pub mod ValueCounts
