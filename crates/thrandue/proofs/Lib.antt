mod Laws
pub mod Sequences
pub mod Unique
