pub mod Lends
pub mod Lists
pub mod Rising
pub mod Tables
