pub use Rattle.fix_edit.proofs.of_sql_token
pub use Rattle.fix_edit.proofs.of_sql_tree
