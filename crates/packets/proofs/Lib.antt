pub mod Commands
pub mod Unique
