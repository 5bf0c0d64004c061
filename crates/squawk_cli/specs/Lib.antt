pub mod Config
pub mod Findings
pub mod Answer
pub mod Modes
pub mod Outcome
pub mod Headline
pub mod CleanRun
pub mod PrintedAnswers
pub use Rattle.squawk_run.specs.devices
pub use Rattle.squawk_linter.specs.lint_base
pub use Rattle.squawk_linter.specs.lint_pass
pub use Rattle.squawk_linter.specs.sql_tree
pub use Rattle.squawk_linter.specs as squawk_linter
