pub mod Tables
pub use Rattle.law_type_fixes.specs.law_edit_cuts
pub use Rattle.law_type_fixes.specs.law_fixes
pub use Rattle.law_type_fixes.specs as law_type_fixes
pub use Rattle.law_type_fixes.specs.lint_base
pub use Rattle.law_type_fixes.specs.lint_node
pub use Rattle.law_type_fixes.specs.lint_pass
pub use Rattle.law_type_fixes.specs.lint_transaction
pub use Rattle.pass_groups.specs.pass_client
pub use Rattle.law_type_fixes.specs.pass_concurrent
pub use Rattle.pass_groups.specs.pass_constraint
pub use Rattle.pass_groups.specs.pass_drop
pub use Rattle.pass_groups.specs as pass_groups
pub use Rattle.pass_groups.specs.pass_history
pub use Rattle.pass_groups.specs.pass_name
pub use Rattle.law_type_fixes.specs.pass_session
pub use Rattle.law_type_fixes.specs.sql_keyword
pub use Rattle.law_type_fixes.specs.sql_token
pub use Rattle.law_type_fixes.specs.sql_tree
