pub mod Blocks
pub mod Judgements
pub mod Rows
