pub mod Tables
pub mod Loops
pub mod Laws
