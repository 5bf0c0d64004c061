pub mod Names
pub mod Runs
pub mod Types
pub mod Altered
pub mod Created
pub mod Named
pub use Rattle.law_edit_inserts.specs.law_edit_cuts
pub use Rattle.law_edit_inserts.specs as law_edit_inserts
pub use Rattle.law_edit_inserts.specs.law_edit_tokens
pub use Rattle.law_edit_inserts.specs.law_renumber
