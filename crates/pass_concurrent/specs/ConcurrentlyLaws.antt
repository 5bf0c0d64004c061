-- The edit that adds CONCURRENTLY is in the text.
use Rattle.std.specs.Prelude.{ℕ, codes}
use Rattle.lint_pass.specs.sql_tree.Statement.{Tree}
use Rattle.lint_pass.specs.FixLaws.{after_token}
use Rattle.lint_pass.specs.Laws.{AreEdits, IsRead}
use Rattle.pass_concurrent.specs.Concurrently.{concurrently_after}

-- the edit is at a place of the text
pub concurrently_placed : (tree : Tree) → IsRead tree → (token : ℕ) → AreEdits tree.text (concurrently_after tree token).edits
concurrently_placed tree read token = after_token tree read (codes " concurrently") token
