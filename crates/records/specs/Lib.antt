pub mod Records
pub mod Kinds
pub mod Heads
pub mod Lines
pub mod Runs
pub mod Streams
pub mod Puts
pub mod Printed
