mod Leads
pub use Rattle.sql_mark.proofs as of_sql_mark
