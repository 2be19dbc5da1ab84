pub mod Numbered
pub mod RosterNotes
pub mod Lends
