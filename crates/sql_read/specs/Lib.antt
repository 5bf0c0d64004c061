pub mod Cause
pub mod Pushes
pub mod Table
pub use Rattle.sql_action.specs.sql_lex
pub use Rattle.sql_token.specs as sql_token
pub use Rattle.sql_tree.specs as sql_tree
pub use Rattle.sql_tree.specs.text_pos
