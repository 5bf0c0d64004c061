pub mod Kept
pub mod Leaves
pub mod Left
pub mod Listed
pub mod Step
pub use Rattle.law_type_fixes.specs.law_fixes
pub use Rattle.law_type_fixes.specs as law_type_fixes
pub use Rattle.law_type_fixes.specs.lint_base
pub use Rattle.law_type_fixes.specs.lint_ignore
pub use Rattle.law_type_fixes.specs.lint_pass
pub use Rattle.law_type_fixes.specs.pass_data_type
pub use Rattle.law_type_fixes.specs.pass_session
pub use Rattle.law_type_fixes.specs.sql_token
pub use Rattle.law_type_fixes.specs.sql_tree
