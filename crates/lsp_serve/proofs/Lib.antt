pub mod Back
pub mod Finding
pub mod Keeping
mod Saying
mod Handling
mod Turning
mod Stopping
