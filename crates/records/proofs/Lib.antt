mod Fronts
mod Heads
mod Printing
mod Putting
mod Running
mod Turning
pub mod AsTheRules
pub mod Streams
pub mod Unique
