pub mod Words
pub mod Known
pub mod Partitioned
pub mod Classes
pub mod Laws
pub use Rattle.lint_report.specs as lint_report
pub use Rattle.lint_ignore.specs.sql_token
pub use Rattle.lint_ignore.specs.sql_tree
pub use Rattle.statement_place.specs as statement_place
pub use Rattle.lint_report.specs.text_pos
