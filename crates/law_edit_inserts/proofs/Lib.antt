pub mod Statements
pub mod Tokens
pub mod TakenConcurrently
pub mod Apart
pub mod Leading
pub mod Indexes
pub mod Reindexes
pub mod IndexShapes
pub mod DropShapes
pub mod ReindexShapes
pub mod AlterShapes
pub mod ActionPlaces
pub mod Detaches
pub mod Inserted
pub mod Fields
pub mod DetachFields
pub mod Sets
pub use Rattle.law_edit_cuts.proofs as of_law_edit_cuts
pub use Rattle.law_edit_tokens.proofs as of_law_edit_tokens
pub use Rattle.law_edit_cuts.proofs.of_law_renumber
pub use Rattle.law_edit_cuts.proofs.of_sql_token
