pub mod FieldsAgain
pub mod FieldsShort
pub mod Numbers
