pub mod Bytes
pub mod Changes
pub mod Setting
pub mod Answers
pub mod Mended
pub mod Listed
pub mod Unique
