pub mod Printed
pub mod Made
