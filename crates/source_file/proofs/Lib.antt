pub mod Feeds
pub mod Pushes
pub mod Blocks
pub mod AsciiColumns
pub mod Widths
pub mod Showing
pub mod Hinting
pub mod Escaping
