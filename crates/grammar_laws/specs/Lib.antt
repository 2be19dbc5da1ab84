pub mod FaultLaws
pub mod GrammarLaws
pub mod Leads
