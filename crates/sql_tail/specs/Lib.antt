pub mod Options
pub mod Paths
