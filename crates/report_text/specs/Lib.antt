pub mod Paint
pub mod Layouts
pub mod Rows
pub mod Excerpt
pub mod Fixed
pub mod Helps
pub mod Report
pub mod Closing
