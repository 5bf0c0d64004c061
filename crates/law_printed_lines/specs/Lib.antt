pub mod Escapes
pub mod Kept
pub mod Steering
pub mod Unique
pub use Rattle.check_print.specs as check_print
pub use Rattle.check_print.specs.check_words
pub use Rattle.check_print.specs.checked_file
pub use Rattle.check_print.specs.hazard_base
pub use Rattle.check_print.specs.json_value
pub use Rattle.check_print.specs.lint_base
pub use Rattle.check_print.specs.lint_report
pub use Rattle.check_print.specs.report_gitlab
pub use Rattle.check_print.specs.report_json
pub use Rattle.check_print.specs.report_sarif
pub use Rattle.check_print.specs.report_text
pub use Rattle.check_print.specs.source_file
pub use Rattle.check_print.specs.text_pos
