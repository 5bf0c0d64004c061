pub mod Counted
pub mod Statistics
pub mod Findings
pub mod Passed
pub mod Printed
pub mod Found
pub use Rattle.check_words.specs as check_words
pub use Rattle.checked_file.specs as checked_file
pub use Rattle.hazard_base.specs as hazard_base
pub use Rattle.report_gitlab.specs.json_value
pub use Rattle.lint_base.specs as lint_base
pub use Rattle.checked_file.specs.lint_report
pub use Rattle.report_gitlab.specs as report_gitlab
pub use Rattle.report_json.specs as report_json
pub use Rattle.report_lines.specs as report_lines
pub use Rattle.report_sarif.specs as report_sarif
pub use Rattle.report_text.specs as report_text
pub use Rattle.checked_file.specs.source_file
pub use Rattle.checked_file.specs.text_pos
