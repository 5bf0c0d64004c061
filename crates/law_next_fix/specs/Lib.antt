pub mod Fitting
pub use Rattle.fix_choice.specs as fix_choice
pub use Rattle.fix_choice.specs.fix_edit
pub use Rattle.law_answer_steps.specs as law_answer_steps
pub use Rattle.fix_choice.specs.law_fix_steps
pub use Rattle.fix_choice.specs.law_fixes
pub use Rattle.fix_choice.specs.lint_ignore
pub use Rattle.fix_choice.specs.lint_pass
pub use Rattle.law_answer_steps.specs.sql_read
pub use Rattle.fix_choice.specs.sql_token
pub use Rattle.fix_choice.specs.sql_tree
pub use Rattle.law_answer_steps.specs.squawk_linter
