pub mod Settling
pub mod Doing
pub mod Saying
