pub mod Rows
pub mod Holding
pub mod InStep
pub mod Unique
