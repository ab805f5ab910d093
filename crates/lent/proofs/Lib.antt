mod Copies
pub mod Laws
pub mod Rows
pub mod Unique
