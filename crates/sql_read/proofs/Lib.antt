pub mod OneAnswer
pub mod Listed
pub use Rattle.sql_token.proofs as of_sql_token
