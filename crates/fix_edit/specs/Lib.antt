pub mod Answer
pub mod Faults
pub mod Mends
pub use Rattle.law_type_fixes.specs.law_fixes
pub use Rattle.law_type_fixes.specs.law_renumber
pub use Rattle.law_type_fixes.specs as law_type_fixes
pub use Rattle.law_type_fixes.specs.lint_base
pub use Rattle.law_type_fixes.specs.lint_ignore
pub use Rattle.law_type_fixes.specs.lint_node
pub use Rattle.law_type_fixes.specs.lint_pass
pub use Rattle.law_type_fixes.specs.lint_transaction
pub use Rattle.law_type_fixes.specs.pass_concurrent
pub use Rattle.law_type_fixes.specs.sql_token
pub use Rattle.law_type_fixes.specs.sql_tree
pub use Rattle.law_type_fixes.specs.text_pos
