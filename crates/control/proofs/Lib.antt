pub mod Granting
pub mod Unique
