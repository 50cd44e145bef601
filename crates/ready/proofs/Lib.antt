pub mod Runnable
pub mod Some
pub mod Laws
