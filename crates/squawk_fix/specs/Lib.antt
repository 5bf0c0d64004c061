pub mod Fixing
pub mod Round
pub mod Chosen
pub mod Lines
pub mod Outcome
