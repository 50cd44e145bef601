pub mod Rows
pub mod Held
pub mod Finish
pub mod Defaults
