pub mod Blanks
pub mod Cuts
pub mod Joins
pub use Rattle.law_edit_tokens.proofs as of_law_edit_tokens
