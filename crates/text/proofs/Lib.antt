pub mod Pieces
pub mod Slices
pub mod Rows
pub mod Fields
pub mod Sums
