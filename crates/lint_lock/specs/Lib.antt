pub mod Lock
pub mod Slow
