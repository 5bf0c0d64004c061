mod CharNames
mod TypeWalk
pub use Rattle.lint_pass.proofs.of_lint_base
pub use Rattle.lint_pass.proofs.of_lint_ignore
pub use Rattle.lint_pass.proofs.of_lint_transaction
pub use Rattle.lint_pass.proofs.of_sql_token
pub use Rattle.lint_pass.proofs.of_sql_tree
