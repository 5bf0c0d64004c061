pub mod ByStart
pub mod Reports
pub mod Answers
pub mod Assessments
pub mod Headline
pub mod Laws
pub mod CleanAnswers
pub mod Placed
pub mod Mending
pub use Rattle.law_answers.specs as law_answers
pub use Rattle.law_clean.specs as law_clean
pub use Rattle.fix_edit.specs.lint_base
pub use Rattle.fix_edit.specs.lint_ignore
pub use Rattle.fix_edit.specs.lint_node
pub use Rattle.fix_edit.specs.lint_pass
pub use Rattle.fix_edit.specs.lint_transaction
pub use Rattle.law_clean.specs.lock_machine
pub use Rattle.law_answers.specs.pass_client
pub use Rattle.law_answers.specs.pass_constraint
pub use Rattle.law_answers.specs.pass_drop
pub use Rattle.law_answers.specs.pass_groups
pub use Rattle.law_answers.specs.pass_history
pub use Rattle.law_answers.specs.pass_name
pub use Rattle.sql_read.specs as sql_read
pub use Rattle.fix_edit.specs.sql_token
pub use Rattle.fix_edit.specs.sql_tree
pub use Rattle.fix_edit.specs.text_pos
