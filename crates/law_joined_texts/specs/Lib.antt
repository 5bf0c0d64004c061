pub mod Joined
pub use Rattle.law_edit_tokens.specs as law_edit_tokens
pub use Rattle.law_edit_cuts.specs.sql_keyword
pub use Rattle.law_edit_cuts.specs.sql_token
pub use Rattle.law_edit_cuts.specs.sql_tree
