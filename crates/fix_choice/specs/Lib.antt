pub mod Fits
pub use Rattle.fix_edit.specs as fix_edit
pub use Rattle.law_fix_steps.specs as law_fix_steps
pub use Rattle.fix_edit.specs.law_fixes
pub use Rattle.fix_edit.specs.law_type_fixes
pub use Rattle.fix_edit.specs.lint_base
pub use Rattle.fix_edit.specs.lint_ignore
pub use Rattle.fix_edit.specs.lint_pass
pub use Rattle.fix_edit.specs.sql_token
pub use Rattle.fix_edit.specs.sql_tree
