pub mod Answers
pub mod Lists
pub mod Outside
pub mod Results
pub mod Slots
