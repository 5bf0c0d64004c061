pub mod Boundary
pub mod Chunks
pub mod Comment
pub mod Depth
pub mod Quote
pub mod Sound
pub mod Terminal
pub mod Token
pub use Rattle.sql_keyword.specs as sql_keyword
