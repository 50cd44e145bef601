pub mod Masks
pub mod Own
