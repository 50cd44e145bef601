pub mod Templates
pub mod LineKinds
