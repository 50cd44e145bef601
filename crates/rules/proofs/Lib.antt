pub mod Laws
pub mod Sets
