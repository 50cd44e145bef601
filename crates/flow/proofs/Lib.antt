pub mod Sites
pub mod Boxes
pub mod Laws
