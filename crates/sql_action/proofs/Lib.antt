pub mod Puts
pub mod Skips
pub mod Tails
