pub mod Choosing
pub mod Beside
pub mod Stages
