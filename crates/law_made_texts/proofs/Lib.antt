pub mod Names
pub mod Groups
pub mod Readings
pub mod Grown
