pub mod Saying
pub mod Keeping
pub mod Knowing
pub mod ClassLaws
pub use Rattle.lint_ignore.proofs.of_sql_tree
