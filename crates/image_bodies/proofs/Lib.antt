pub mod FromTheLast
