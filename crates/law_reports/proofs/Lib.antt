pub mod Ascending
pub mod Clean
pub mod Silence
