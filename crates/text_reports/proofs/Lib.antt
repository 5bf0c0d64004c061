pub mod Placing
pub use Rattle.squawk_linter.proofs.of_sql_token
pub use Rattle.squawk_linter.proofs as of_squawk_linter
