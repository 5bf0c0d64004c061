mod Naming
pub mod Moved
