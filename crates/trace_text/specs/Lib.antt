pub mod Laws
pub mod Lent
pub mod Queue
pub mod Summary
pub mod Text
pub mod Words
