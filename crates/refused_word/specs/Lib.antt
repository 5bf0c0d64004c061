pub mod Messages
pub use Rattle.check_words.specs as check_words
pub use Rattle.check_words.specs.code_choice
pub use Rattle.check_words.specs.devices
pub use Rattle.check_words.specs.help_words
pub use Rattle.report_lines.specs.lint_base
pub use Rattle.nearest_code.specs.lint_report
pub use Rattle.nearest_code.specs as nearest_code
pub use Rattle.report_lines.specs as report_lines
pub use Rattle.report_lines.specs.source_file
pub use Rattle.check_words.specs.squawk_run
pub use Rattle.shown_words.specs.squawk_words
