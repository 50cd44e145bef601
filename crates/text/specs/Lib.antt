pub mod Pieces
pub mod Fields
