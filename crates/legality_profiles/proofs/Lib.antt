pub mod NamesApart
pub mod Beside
