pub mod Marks
pub mod Rows
pub mod Repeats
pub mod Keys
