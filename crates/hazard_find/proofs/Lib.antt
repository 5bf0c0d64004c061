pub mod GuardLaws
pub mod LookLaws
pub mod ShownLaws
pub mod SilenceLaws
pub mod WalkLaws
pub use Rattle.lint_transaction.proofs as of_lint_transaction
