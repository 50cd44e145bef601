pub mod RowForms
pub mod Groups
