pub mod Handled
