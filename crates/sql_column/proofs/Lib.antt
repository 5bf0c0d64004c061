pub mod OneWord
pub use Rattle.sql_constraint.proofs.of_sql_mark
