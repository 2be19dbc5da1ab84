pub mod Row24_1
pub mod RowRepresentation
