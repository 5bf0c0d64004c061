pub mod Concurrently
pub mod Shapes
pub mod Actions
pub mod Apart
pub mod Built
pub mod SetInFront
pub use Rattle.law_edit_cuts.specs as law_edit_cuts
pub use Rattle.law_edit_tokens.specs as law_edit_tokens
pub use Rattle.law_edit_cuts.specs.law_renumber
pub use Rattle.law_edit_cuts.specs.sql_keyword
pub use Rattle.law_edit_cuts.specs.sql_token
pub use Rattle.law_edit_cuts.specs.sql_tree
