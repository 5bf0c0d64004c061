pub mod Reports
pub mod Placed
pub use Rattle.hazard_find.specs.hazard_base
pub use Rattle.hazard_find.specs as hazard_find
pub use Rattle.hazard_ignore.specs as hazard_ignore
pub use Rattle.squawk_linter.specs.law_answers
pub use Rattle.squawk_linter.specs.law_clean
pub use Rattle.squawk_linter.specs.lint_base
pub use Rattle.squawk_linter.specs.lint_ignore
pub use Rattle.squawk_linter.specs.lint_pass
pub use Rattle.fix_class.specs.lint_report
pub use Rattle.squawk_linter.specs.lock_machine
pub use Rattle.squawk_linter.specs.pass_groups
pub use Rattle.squawk_linter.specs.sql_read
pub use Rattle.squawk_linter.specs.sql_token
pub use Rattle.squawk_linter.specs.sql_tree
pub use Rattle.squawk_linter.specs as squawk_linter
pub use Rattle.squawk_linter.specs.text_pos
