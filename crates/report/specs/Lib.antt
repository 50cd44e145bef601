pub mod Evals
pub mod Given
