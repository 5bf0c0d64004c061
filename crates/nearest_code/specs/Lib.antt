pub mod Nearest
pub use Rattle.lint_report.specs as lint_report
