mod Rows
pub mod Unique
