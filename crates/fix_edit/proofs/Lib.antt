mod Causes
mod Mending
mod EditSteps
pub use Rattle.law_type_fixes.proofs.of_law_fixes
pub use Rattle.law_type_fixes.proofs.of_law_renumber
pub use Rattle.law_type_fixes.proofs as of_law_type_fixes
pub use Rattle.law_type_fixes.proofs.of_lint_base
pub use Rattle.law_type_fixes.proofs.of_lint_ignore
pub use Rattle.law_type_fixes.proofs.of_lint_transaction
pub use Rattle.law_type_fixes.proofs.of_sql_token
pub use Rattle.law_type_fixes.proofs.of_sql_tree
