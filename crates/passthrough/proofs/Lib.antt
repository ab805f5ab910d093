mod Counts
mod Growing
pub mod Unique
