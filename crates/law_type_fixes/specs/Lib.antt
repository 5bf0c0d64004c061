pub mod Moved
pub mod Moves
pub mod Rules
pub mod Apart
pub mod Words
pub mod Stays
pub mod Mended
pub use Rattle.law_edit_types.specs.law_edit_cuts
pub use Rattle.law_edit_types.specs.law_edit_inserts
pub use Rattle.law_edit_types.specs.law_edit_tokens
pub use Rattle.law_edit_types.specs as law_edit_types
pub use Rattle.law_fixes.specs as law_fixes
pub use Rattle.law_edit_types.specs.law_renumber
pub use Rattle.pass_data_type.specs.lint_base
pub use Rattle.pass_data_type.specs.lint_ignore
pub use Rattle.law_fixes.specs.lint_lock
pub use Rattle.pass_data_type.specs.lint_node
pub use Rattle.pass_data_type.specs.lint_pass
pub use Rattle.pass_data_type.specs.lint_transaction
pub use Rattle.law_fixes.specs.pass_concurrent
pub use Rattle.pass_data_type.specs as pass_data_type
pub use Rattle.law_fixes.specs.pass_session
pub use Rattle.pass_data_type.specs.sql_keyword
pub use Rattle.pass_data_type.specs.sql_name
pub use Rattle.pass_data_type.specs.sql_token
pub use Rattle.pass_data_type.specs.sql_tree
pub use Rattle.pass_data_type.specs.text_pos
