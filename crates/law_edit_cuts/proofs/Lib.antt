pub mod Nested
pub mod Cuts
pub mod CutLaws
pub mod Sound
pub use Rattle.law_renumber.proofs as of_law_renumber
pub use Rattle.law_renumber.proofs.of_sql_token
