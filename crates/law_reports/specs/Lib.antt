pub mod CleanTexts
pub mod NotReported
pub mod Order
pub use Rattle.text_reports.specs.lint_ignore
pub use Rattle.text_reports.specs.lint_pass
pub use Rattle.text_reports.specs.lint_report
pub use Rattle.text_reports.specs.sql_read
pub use Rattle.text_reports.specs.sql_token
pub use Rattle.text_reports.specs.sql_tree
pub use Rattle.text_reports.specs.text_pos
pub use Rattle.text_reports.specs as text_reports
