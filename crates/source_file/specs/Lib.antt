pub mod Line
pub mod Columns
pub mod Shown
pub mod Escaped
pub mod Refusals
pub mod File
pub mod Levels
pub mod Hints
