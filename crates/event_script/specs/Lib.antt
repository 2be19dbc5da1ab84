pub mod Words
pub mod Numbers
pub mod Entries
pub mod Items
pub mod Script
