pub mod Front
mod Names
pub mod Opens
pub mod Cuts
pub mod Runs
mod Heads
