pub mod Binders
