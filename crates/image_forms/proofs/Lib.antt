pub mod DeclarationLists
pub mod StatementLists
