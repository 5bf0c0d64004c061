pub mod Moving
pub mod Placing
pub mod Putting
pub mod Names
