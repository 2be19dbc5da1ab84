pub mod FilesRead
pub mod PiecesWritten
pub mod BytesByLines
pub mod HandedOn
pub mod Refilled
