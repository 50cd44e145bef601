pub mod Wrote
pub mod Letters
