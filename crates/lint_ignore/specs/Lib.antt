pub mod Part
pub mod Comment
pub mod Names
pub mod Found
pub mod Covered
pub mod Lines
pub mod Index
pub mod Unused
pub mod Reported
pub mod Places
pub use Rattle.sql_tree.specs.sql_keyword
pub use Rattle.sql_tree.specs.sql_name
pub use Rattle.sql_tree.specs.sql_token
pub use Rattle.sql_tree.specs as sql_tree
