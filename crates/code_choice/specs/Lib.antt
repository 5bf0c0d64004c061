pub mod Choices
pub use Rattle.squawk_run.specs.devices
pub use Rattle.lint_report.specs as lint_report
pub use Rattle.squawk_run.specs as squawk_run
pub use Rattle.squawk_run.specs.squawk_words
