pub use Rattle.sql_form.proofs.of_sql_mark
