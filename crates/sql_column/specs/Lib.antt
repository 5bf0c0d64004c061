pub mod OneWord
pub use Rattle.sql_constraint.specs.sql_form
pub use Rattle.sql_lex.specs as sql_lex
