pub mod Asked
pub mod Outcomes
pub mod Settled
pub mod Workspace
pub mod Command
