pub mod Image
pub mod Stages
