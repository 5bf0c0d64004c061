pub mod Failures
pub mod Lines
pub mod Words
pub mod Command
