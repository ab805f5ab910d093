pub mod Records
pub mod Stores
pub mod Unique
