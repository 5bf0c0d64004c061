pub mod Parting
pub mod Sameness
pub mod Taking
pub use Rattle.psql_text.proofs as of_psql_text
