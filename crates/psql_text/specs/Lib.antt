pub mod Commands
pub mod Count
pub mod Laws
pub mod Lines
pub mod Marks
pub mod Psql
pub mod Reading
pub mod Told
