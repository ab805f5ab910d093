pub mod Store
pub mod Stores
