pub mod Forms
pub mod Statement
pub mod Range
pub mod Path
pub mod PathNames
pub mod Split
pub mod Groups
pub mod Pieces
pub mod ColumnMarks
pub mod Constraint
pub mod Words
pub mod ActionPieces
pub mod ActionRows
pub mod Action
pub mod Expression
pub mod ColumnType
pub mod Column
pub mod Write
pub mod Tails
pub mod Nodes
pub mod Leads
pub use Rattle.sql_token.specs.sql_keyword
pub use Rattle.sql_name.specs as sql_name
pub use Rattle.sql_token.specs as sql_token
pub use Rattle.sql_name.specs.text_pos
