pub mod Reads
pub mod Puts
pub use Rattle.sql_column.specs.sql_form
pub use Rattle.sql_column.specs.sql_lex
