pub mod Rows
pub mod Defaults
