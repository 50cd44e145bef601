pub mod View
pub mod Fits
pub mod Table
