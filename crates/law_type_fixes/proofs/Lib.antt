pub mod Walk
pub mod Bodies
pub mod Ranged
pub mod ColumnTypes
pub mod TypesApart
pub mod Tokens
pub mod TypeReports
pub mod Tables
pub mod Edits
pub mod Words
pub mod Homes
pub mod Inners
pub mod KeyWords
pub mod LastNames
pub mod Fixes
mod Moves
pub use Rattle.law_edit_types.proofs.of_law_edit_inserts
pub use Rattle.law_edit_types.proofs.of_law_edit_tokens
pub use Rattle.law_edit_types.proofs as of_law_edit_types
pub use Rattle.law_fixes.proofs as of_law_fixes
pub use Rattle.law_edit_types.proofs.of_law_renumber
pub use Rattle.pass_data_type.proofs.of_lint_base
pub use Rattle.pass_data_type.proofs.of_lint_ignore
pub use Rattle.pass_data_type.proofs.of_lint_transaction
pub use Rattle.pass_data_type.proofs.of_sql_token
pub use Rattle.pass_data_type.proofs.of_sql_tree
