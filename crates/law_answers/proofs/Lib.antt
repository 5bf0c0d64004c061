pub mod Coding
pub mod Groups
pub use Rattle.law_type_fixes.proofs.of_law_edit_inserts
pub use Rattle.law_type_fixes.proofs.of_law_fixes
pub use Rattle.law_type_fixes.proofs.of_law_renumber
pub use Rattle.law_type_fixes.proofs as of_law_type_fixes
