pub mod Bans
pub mod BanLaws
pub mod Blocks
pub mod BlockPlace
pub mod BlockWalk
pub mod Cleared
pub mod Enabled
pub mod Fixes
pub mod FixLaws
pub mod Laws
pub mod NodeWalk
pub mod NodeWalkLaws
pub mod PairLaws
pub mod Pieces
pub mod PlaceLaws
pub mod Ruled
pub mod RuledLaws
pub mod RuleLaws
pub mod RuleTables
pub mod Walk
pub mod Ranges
pub mod Rows
pub mod Those
pub mod ThoseLaws
pub use Rattle.lint_base.specs as lint_base
pub use Rattle.lint_ignore.specs as lint_ignore
pub use Rattle.lint_node.specs as lint_node
pub use Rattle.lint_transaction.specs as lint_transaction
pub use Rattle.lint_ignore.specs.sql_keyword
pub use Rattle.lint_ignore.specs.sql_name
pub use Rattle.sql_token.specs as sql_token
pub use Rattle.lint_ignore.specs.sql_tree
pub use Rattle.lint_base.specs.text_pos
