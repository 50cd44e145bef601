pub mod Progress
pub mod Reasons
pub mod Tallies
