pub mod TreeLaws
pub mod Tokens
pub mod PathSteps
pub mod Chunks
pub mod LeadLaws
pub mod TailWalks
pub use Rattle.sql_name.proofs as of_sql_name
pub use Rattle.sql_token.proofs as of_sql_token
