pub mod Tests
pub mod Lines
pub mod Rows
pub mod Limits
