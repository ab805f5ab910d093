mod Mismatches
pub mod Unique
