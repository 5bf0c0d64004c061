pub mod Statuses
pub mod Answers
pub mod Files
pub mod Sound
pub use Rattle.lint_report.specs as lint_report
pub use Rattle.source_file.specs as source_file
pub use Rattle.lint_report.specs.text_pos
