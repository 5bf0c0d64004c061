pub mod Moved
pub mod Renumber
pub mod Options
pub mod Names
pub mod Trees
pub mod Order
pub mod Texts
pub mod Whole
pub use Rattle.sql_tree.specs.sql_keyword
pub use Rattle.sql_tree.specs.sql_name
pub use Rattle.sql_token.specs as sql_token
pub use Rattle.sql_tree.specs as sql_tree
