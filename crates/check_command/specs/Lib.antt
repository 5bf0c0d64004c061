pub mod Failures
pub mod Choosing
pub mod Command
