pub mod Fitting
pub mod First
pub use Rattle.law_answer_steps.proofs as of_law_answer_steps
pub use Rattle.fix_choice.proofs.of_sql_token
pub use Rattle.fix_choice.proofs.of_sql_tree
