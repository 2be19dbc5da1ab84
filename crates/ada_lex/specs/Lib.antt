pub mod Shapes
pub mod Reading
pub mod Meaning
pub mod ReservedLetters
pub mod DelimiterLetters
pub mod Lexed
pub mod Reserved
